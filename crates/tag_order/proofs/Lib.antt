-- `OrderLaws`: what is applied in list order is rule 7's tag order.
pub mod OrderLaws
