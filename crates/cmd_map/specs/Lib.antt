pub mod MapText
pub mod Pictures
