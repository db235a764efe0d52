pub mod HelpLaws
pub mod ExportLaws
pub mod InstallLaws
pub mod LikingLaws
pub mod LookLaws
pub mod MisuseLaws
