-- Bytes in memory that are read or written, if the listed calls fail.
use Rattle.std.specs.Prelude.{◌≡◌, ℕ, ◌+◌, ◌-◌, ◌^◌, ◌<◌, ◌⊎◌, min, List, [], ◌++◌, length, take, drop, Contains, Result, Ok, Err}

-- The bytes left, the calls that fail, how many calls came and how many failed; both counts end at 2 ^ 64 - 1.
pub record Feed : Type 0 where
  pub left : List ℕ
  pub failing : List ℕ
  pub calls : ℕ
  pub faults : ℕ

-- The bytes written, the room for them, and the rest as above.
pub record Store : Type 0 where
  pub written : List ℕ
  pub room : ℕ
  pub failing : List ℕ
  pub calls : ℕ
  pub faults : ℕ

abbrev pub feed_of : List ℕ → List ℕ → ℕ → ℕ → Feed
feed_of left failing calls faults = record { left = left; failing = failing; calls = calls; faults = faults }

abbrev pub new_feed : List ℕ → List ℕ → Feed
new_feed left failing = feed_of left failing 0 0

abbrev pub store_of : List ℕ → ℕ → List ℕ → ℕ → ℕ → Store
store_of written room failing calls faults = record { written = written; room = room; failing = failing; calls = calls; faults = faults }

abbrev pub new_store : ℕ → List ℕ → Store
new_store room failing = store_of [] room failing 0 0

-- one more, up to 2 ^ 64 - 1
abbrev pub counted : ℕ → ℕ
counted n = min (n + 1) (2 ^ 64 - 1)

abbrev pub after_read : Feed → ℕ → Feed
after_read feed n = feed_of (drop n feed.left) feed.failing (counted feed.calls) feed.faults

abbrev pub after_read_fault : Feed → Feed
after_read_fault feed = feed_of feed.left feed.failing (counted feed.calls) (counted feed.faults)

-- A read fails if and only if its call is listed. Else it fills the buffer as far as the bytes go.
abbrev pub IsRead : {E : Type 0} → Feed → Feed → List ℕ → List ℕ → Result ℕ E → Type 0
IsRead old new before after (Ok n) =
    (Contains old.failing old.calls → ⊥) × (n ≡ min (length old.left) (length before)) × (take n after ≡ take n old.left) × (new ≡ after_read old n)
IsRead old new before after (Err e) = Contains old.failing old.calls × (new ≡ after_read_fault old)

abbrev pub room_left : Store → ℕ
room_left store = store.room - length store.written

abbrev pub after_write : Store → List ℕ → Store
after_write store piece = store_of (store.written ++ piece) store.room store.failing (counted store.calls) store.faults

abbrev pub after_write_fault : Store → Store
after_write_fault store = store_of store.written store.room store.failing (counted store.calls) (counted store.faults)

-- There is something to write and no room for any of it.
abbrev pub HasNoRoom : Store → List ℕ → Type 0
HasNoRoom store piece = (0 < length piece) × (room_left store ≡ 0)

-- A write fails if and only if its call is listed or there is no room. Else it takes the bytes that fit.
abbrev pub IsWrite : {E : Type 0} → Store → Store → List ℕ → Result ℕ E → Type 0
IsWrite old new piece (Ok n) =
    (Contains old.failing old.calls → ⊥) × (HasNoRoom old piece → ⊥) × (n ≡ min (length piece) (room_left old)) × (new ≡ after_write old (take n piece))
IsWrite old new piece (Err e) = (Contains old.failing old.calls ⊎ HasNoRoom old piece) × (new ≡ after_write_fault old)
