mod Building
mod Dividing
mod Guards
mod Heads
mod Holding
mod Loops
mod Low
mod Opening
mod Parted
mod Reaching
pub mod Spans
mod Taking
