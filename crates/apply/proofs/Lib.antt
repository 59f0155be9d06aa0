pub mod Lists
pub mod Answering
pub mod ApplyWays
pub mod HistoryWays
pub mod AllWays
pub mod Sheets
