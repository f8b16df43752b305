pub mod CommandSteps
pub mod FreshHives
