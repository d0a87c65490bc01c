-- `UncutLaws`: no list is ever cut. `LookLaws`: nor is what looks give. `BackLaws`: nor are the results of a read-back. The others lead there: what fits into every list (`FitLaws`), and that more room changes nothing
-- (`RoomLaws`, `AlikeLaws`).
pub mod FitLaws
pub mod RoomLaws
pub mod AlikeLaws
pub mod UncutLaws
pub mod LookLaws
pub mod BackLaws
