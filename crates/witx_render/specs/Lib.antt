pub mod Expressions
pub mod ExpressionViews
pub mod TypeExpressions
pub mod ModuleExpressions
pub mod DocumentTexts
pub mod Lists
