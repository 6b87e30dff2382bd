pub mod Jobs
pub mod Program
