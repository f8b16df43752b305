pub mod Walking
pub mod Computed
pub mod Wholeness
pub mod Refinement
pub mod Frame
pub mod Graft
pub mod Lookup
