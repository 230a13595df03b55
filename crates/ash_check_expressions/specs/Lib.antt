pub mod TypedExprViews
