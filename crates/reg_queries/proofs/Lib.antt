pub mod FindSteps
pub mod DiffSteps
pub mod LookSteps
pub mod ChangeSteps
