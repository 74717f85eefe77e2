pub mod SystemSteps
pub mod System
pub mod Numbers
