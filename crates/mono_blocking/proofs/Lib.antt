pub mod JobPlaceLemmas
