mod Busy
mod Fresh
