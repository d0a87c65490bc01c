-- `RecordLaws`: records of cells, read and stored, and a test of each. `SettingLaws`: the settings. `GroupLaws`: the groups.
pub mod RecordLaws
pub mod SettingLaws
pub mod GroupLaws
pub mod Links
