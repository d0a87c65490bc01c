-- Laws of a step.
pub mod StepLaws
pub mod Links
