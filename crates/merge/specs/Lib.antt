pub mod Meetings
pub mod Turning
pub mod Choosing
pub mod Running
