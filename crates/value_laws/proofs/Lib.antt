pub mod BelowLemmas
pub mod ExpressionLemmas
pub mod ValueLemmas
