pub mod Stack
pub mod Lending
pub mod History
