pub mod FileLaws
pub mod ReportLaws
pub mod KnownLaws
