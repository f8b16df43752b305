-- A key described by another descriptor.
pub mod SecurityShared
pub mod SecurityJoined
pub mod KeyRedescribed
pub mod DescribeFrame
pub mod DescribeGraft
pub mod ReleaseKept
pub mod DescribeKeyObligations
pub mod SecurityCarved
pub mod DescriptionSeen
