pub mod Meetings
pub mod Turning
pub mod OneTurn
pub mod SideLaws
pub mod Running
pub mod Ends
pub mod Taking
