pub mod ExponentLaws
