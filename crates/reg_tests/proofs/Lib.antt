mod RowsOfLimits
