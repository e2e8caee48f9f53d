pub mod PivotLaws
pub mod RemainderLaws
pub mod RoundLaws
