pub mod Internal
pub mod Tables
pub mod Asked
