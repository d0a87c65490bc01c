-- Rule 9: rounds, the writes behind them, and the waits between them.
pub mod Polling
