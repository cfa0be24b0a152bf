pub mod PermitLemmas
pub mod MessageLemmas
pub mod RoomLemmas
pub mod OnceLemmas
mod WaitForLemmas
mod ManyPermitLemmas
mod ManyMessageLemmas
mod UnboundedLemmas
pub mod ServedLemmas
pub mod PlaceLemmas
pub mod WaitLemmas
pub mod DueLemmas
pub mod NoticeLemmas
pub mod OneshotLemmas
pub mod BelowLemmas
pub mod WatchLemmas
pub mod FreeLemmas
pub mod TakeLemmas
pub mod ChannelLemmas
pub mod LineLemmas
pub mod SemaphoreLemmas
pub mod ListedLemmas
pub mod OwnLemmas
pub mod IdleLemmas
pub mod RisingLemmas
mod TallyLemmas
mod TouchedLemmas
mod ManyLemmas
mod MadeLemmas
mod EmptyLineLemmas
pub mod KeyedMessageLemmas
pub mod OvertakeLemmas
pub mod CoverLemmas
pub mod PassLemmas
pub mod PassedNoticeLemmas
pub mod NoticeRunLemmas
