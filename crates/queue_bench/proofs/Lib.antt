pub mod Unsettled
