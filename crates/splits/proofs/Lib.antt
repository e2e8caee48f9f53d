pub mod AsideLaws
