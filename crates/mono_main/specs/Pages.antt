-- Which words ask for a page, and the text that answers them.
use Rattle.std.specs.Prelude.{◌≡◌, ◌⊎◌, ℕ, List, [], ◌∷◌, Option, codes}
use Rattle.mono_text.specs.Environment.{HasRisen, HasWritten, HasWrittenPrefix}
use Rattle.mono_script.specs.declared.ends.Status.{Status}
use Rattle.mono_script.specs.declared.ends.Status.TheVariants as status
use Rattle.mono_main.specs.declared.pages.TheConstants.{HELP, VERSION, REPLAY, RUN, LOAD, SESSIONS, LIMITER, ACTORS, CHECK}
use Rattle.mono_main.specs.declared.pages.Topic.{Topic}
use Rattle.mono_main.specs.declared.pages.Topic.TheVariants as topic
use Rattle.mono_main.specs.declared.pages.Page.{Page}
use Rattle.mono_main.specs.declared.pages.Page.TheVariants as page

-- the command's name
abbrev pub topic_name : Topic → List ℕ
topic_name topic.Replay = codes "replay"
topic_name topic.Run = codes "run"
topic_name topic.Load = codes "load"
topic_name topic.Sessions = codes "sessions"
topic_name topic.Limiter = codes "limiter"
topic_name topic.Actors = codes "actors"
topic_name topic.Check = codes "check"

abbrev pub NamesNoTopic : List ℕ → Type 0
NamesNoTopic word = (t : Topic) → word ≡ topic_name t → ⊥

abbrev pub IsHelpFlag : List ℕ → Type 0
IsHelpFlag word = (word ≡ codes "--help") ⊎ (word ≡ codes "-h")

abbrev pub IsHelpWord : List ℕ → Type 0
IsHelpWord word = IsHelpFlag word ⊎ (word ≡ codes "help")

-- A word that asks for help has the general help if it is alone. So has `help` before such a word, or before `--version`.
abbrev pub AsksInGeneral : List (List ℕ) → Type 0
AsksInGeneral words = (word : List ℕ) × ((IsHelpWord word × (words ≡ word ∷ [])) ⊎ ((IsHelpWord word ⊎ (word ≡ codes "--version")) × (words ≡ codes "help" ∷ word ∷ [])))

-- `--help` or `-h` after a command's name has the page of that command, and so has `help` before it.
abbrev pub AsksAbout : List ℕ → List (List ℕ) → Type 0
AsksAbout name words = (words ≡ codes "help" ∷ name ∷ []) ⊎ ((flag : List ℕ) × IsHelpFlag flag × (words ≡ name ∷ flag ∷ []))

-- The words ask for the page.
abbrev pub Asks : List (List ℕ) → Page → Type 0
Asks words page.General = AsksInGeneral words
Asks words page.Version = words ≡ codes "--version" ∷ []
Asks words (page.About t) = AsksAbout (topic_name t) words

abbrev pub AsksForPage : List (List ℕ) → Type 0
AsksForPage words = (p : Page) × Asks words p

abbrev pub AsksNothing : List (List ℕ) → Type 0
AsksNothing words = (p : Page) → Asks words p → ⊥

-- the page's text
abbrev pub page_text : Page → List ℕ
page_text page.General = HELP.now
page_text page.Version = VERSION.now
page_text (page.About topic.Replay) = REPLAY.now
page_text (page.About topic.Run) = RUN.now
page_text (page.About topic.Load) = LOAD.now
page_text (page.About topic.Sessions) = SESSIONS.now
page_text (page.About topic.Limiter) = LIMITER.now
page_text (page.About topic.Actors) = ACTORS.now
page_text (page.About topic.Check) = CHECK.now

-- The whole text was written, or a write failed and a beginning of it was.
abbrev pub Shows : List ℕ → Option (List ℕ) → Option (List ℕ) → ℕ → ℕ → Status → Type 0
Shows text before after faults later status.Done = HasWritten before after text
Shows text before after faults later status.WriteFault = HasRisen faults later × HasWrittenPrefix before after text
Shows text before after faults later status.Usage = ⊥
Shows text before after faults later status.BadLine = ⊥
Shows text before after faults later status.ReadFault = ⊥
Shows text before after faults later status.OutOfMemory = ⊥
Shows text before after faults later status.TooLong = ⊥
Shows text before after faults later status.Turns = ⊥
Shows text before after faults later status.Capacity = ⊥
Shows text before after faults later status.NotARun = ⊥

-- The words ask for a page, and the writes of its text ended with this status.
abbrev pub IsAnsweredBy : List (List ℕ) → Option (List ℕ) → Option (List ℕ) → ℕ → ℕ → Status → Type 0
IsAnsweredBy words before after faults later s = (p : Page) × Asks words p × Shows (page_text p) before after faults later s
