-- What a shutdown appends.
pub use Rattle.ask_history.specs.Closing.{open_below, settled, after_close}
