pub mod StatementViews
