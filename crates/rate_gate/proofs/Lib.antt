pub mod RoomLaws
pub mod FrontLaws
