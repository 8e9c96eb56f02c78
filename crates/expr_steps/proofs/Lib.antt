pub mod Params
