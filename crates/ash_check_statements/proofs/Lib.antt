pub mod ReturnLaws
pub mod StatementLaws
pub mod NodeLaws
