pub mod GatherLaws
