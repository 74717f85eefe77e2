pub mod Legal
pub mod System
pub mod Numbers
pub mod Sentence
pub mod Reasons
