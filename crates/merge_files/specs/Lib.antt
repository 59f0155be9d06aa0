pub mod Program
pub mod Steps
