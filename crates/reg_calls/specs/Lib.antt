pub mod Shortages
pub mod Internal
pub mod Views
pub mod Rooms
pub mod HiveView
pub mod Runs
pub mod Seats
pub mod Cuts
