pub mod SpawnLemmas
