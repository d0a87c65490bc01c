-- For callers: `NumberLaws` (each group once), `StatLaws` (the room that group statistics take).
pub mod CountLaws
pub mod NumberLaws
pub mod RateLaws
pub mod StatLaws
pub mod Examples
pub mod Links
