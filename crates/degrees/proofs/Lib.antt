pub mod DegreeLaws
