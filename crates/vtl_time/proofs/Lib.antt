pub mod DayLemmas
pub mod DayOrder
pub mod NumeralLemmas
pub mod PeriodLaws
pub mod PeriodLemmas
pub mod TextLemmas
