pub mod InnermostLaws
pub mod MeaningLaws
