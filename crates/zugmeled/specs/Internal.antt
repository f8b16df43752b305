pub mod ValuesBehind
