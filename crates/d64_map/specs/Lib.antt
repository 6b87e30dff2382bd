pub mod Track
pub mod Map
pub mod Search
pub mod Side
pub mod Plan
pub mod Laws
