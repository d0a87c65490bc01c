-- Check 14, and the settings and groups that the host gives.
pub mod Records
pub mod Settings
pub mod Configured
