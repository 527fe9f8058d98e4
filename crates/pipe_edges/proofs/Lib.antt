pub mod TextLaws
pub mod SearchLaws
pub mod HandLaws
pub mod PutLaws
pub mod PaceLaws
pub mod NeedLaws
