-- Which call the program makes for its words, and the number with which it exits.
use Rattle.std.specs.Prelude.{◌≡◌, ◌⊎◌, ◌<◌, ◌≤◌, ◌^◌, ℕ, Bool, true, false, List, [], ◌∷◌, ◌++◌, Option, codes, decimal}
use Rattle.lease_server.specs.EndToEnd.{HasServed, HasServedLines, HasServedPart, HasBegunOutput, SaysWhich}
use Rattle.lease_server.specs.Pages.{Asks, Shows, page_text}
use Rattle.lease_server.specs.declared.pages.Page.{Page}
use Rattle.lease_server.specs.declared.words.Settings.{Settings}

-- The words of the numbers of these settings, in decimal without sign and leading zeros.
abbrev pub number_words : Settings → List (List ℕ)
number_words s = decimal s.cores ∷ decimal s.sizes.sessions ∷ decimal s.sizes.entries ∷ decimal s.sizes.buckets ∷ decimal s.sizes.actors ∷ decimal s.sizes.messages ∷ []

-- The word after the numbers, if clocks stay at 0.
abbrev pub still_word : Bool → List (List ℕ)
still_word true = codes "still" ∷ []
still_word false = []

-- From 1 to 64 cores, and sizes below 2^64.
abbrev pub FitSettings : Settings → Type 0
FitSettings s =
    (0 < s.cores) × (s.cores ≤ 64) × (s.sizes.sessions < 2 ^ 64) × (s.sizes.entries < 2 ^ 64) × (s.sizes.buckets < 2 ^ 64) × (s.sizes.actors < 2 ^ 64) × (s.sizes.messages < 2 ^ 64)

-- The words after the program's name say these settings: from 1 to 64 cores, and the sizes of each.
pub record SaysSettings (words : List (List ℕ)) (settings : Settings) : Type 0 where
  pub text : words ≡ number_words settings ++ still_word settings.is_still
  pub fit : FitSettings settings

-- The words ask for the page.
abbrev pub AsksPage : List (List ℕ) → Page → Type 0
AsksPage words page = (word : List ℕ) × (words ≡ word ∷ []) × Asks word page

abbrev pub AsksNoPage : List (List ℕ) → Type 0
AsksNoPage words = (page : Page) → AsksPage words page → ⊥

-- What a call sees of the outside: the bytes that are left to read, the count of failed reads, the bytes that were written, and
-- the count of failed writes.
pub record View : Type 0 where
  pub left : Option (List ℕ)
  pub reads : ℕ
  pub written : Option (List ℕ)
  pub writes : ℕ

abbrev pub view_of : Option (List ℕ) → ℕ → Option (List ℕ) → ℕ → View
view_of left reads written writes = record { left = left; reads = reads; written = written; writes = writes }

-- The words ask for a page, which was written, and nothing was read. The number is 0, or 5 after a failed write.
pub record ShowsPage (words : List (List ℕ)) (a b : View) (code : ℕ) : Type 0 where
  pub page : Page
  pub asks : AsksPage words page
  pub shows : Shows (page_text page) a.written b.written a.writes b.writes code
  pub unread : (b.left ≡ a.left) × (b.reads ≡ a.reads)

-- The words say settings, and a server with these settings ended with this number.
pub record ServesWords (words : List (List ℕ)) (a b : View) (code : ℕ) : Type 0 where
  pub no_page : AsksNoPage words
  pub settings : Settings
  pub says : SaysSettings words settings
  pub served : code ≡ 0 → HasServed settings.cores settings.sizes a.left b.left a.written b.written
  pub cut : code ≡ 4 → HasServedLines settings.cores settings.sizes a.left b.left a.written b.written
  pub begun : HasServedPart settings.cores settings.sizes a.left b.left a.written b.written
  pub whole : HasBegunOutput settings.cores settings.sizes a.left a.written b.written
  pub which : SaysWhich code a.reads b.reads a.writes b.writes

-- The words ask for no page and say no settings. Nothing was read or written.
pub record Refuses (words : List (List ℕ)) (a b : View) (code : ℕ) : Type 0 where
  pub no_page : AsksNoPage words
  pub none : (settings : Settings) → SaysSettings words settings → ⊥
  pub is_code : code ≡ 2
  pub same : b ≡ a

-- The program was called with these words after its name. It led from view a to view b and exited with this number.
abbrev pub Exits : List (List ℕ) → View → View → ℕ → Type 0
Exits words a b code = ShowsPage words a b code ⊎ ServesWords words a b code ⊎ Refuses words a b code

module _ {S K : Type 0} (left : S → Option (List ℕ)) (reads : S → ℕ) (written : K → Option (List ℕ)) (writes : K → ℕ) where
  -- The source and the sink were these, then these.
  abbrev pub ExitsWith : List (List ℕ) → S → K → S → K → ℕ → Type 0
  ExitsWith words source sink source_now sink_now code =
      Exits words (view_of (left source) (reads source) (written sink) (writes sink)) (view_of (left source_now) (reads source_now) (written sink_now) (writes sink_now)) code
