-- Which word asks for a page, the page's text, and how it is written.
use Rattle.std.specs.Prelude.{◌≡◌, ◌⊎◌, ℕ, List, Option, codes}
use Rattle.mono_text.specs.Environment.{HasRisen, HasWritten, HasWrittenPrefix}
use Rattle.lease_server.specs.declared.pages.TheConstants.{HELP, VERSION}
use Rattle.lease_server.specs.declared.pages.Page.{Page}
use Rattle.lease_server.specs.declared.pages.Page.TheVariants as page

abbrev pub IsHelpFlag : List ℕ → Type 0
IsHelpFlag word = (word ≡ codes "--help") ⊎ (word ≡ codes "-h")

abbrev pub IsHelpWord : List ℕ → Type 0
IsHelpWord word = IsHelpFlag word ⊎ (word ≡ codes "help")

-- The word asks for the page.
abbrev pub Asks : List ℕ → Page → Type 0
Asks word page.Help = IsHelpWord word
Asks word page.Version = word ≡ codes "--version"

abbrev pub AsksNothing : List ℕ → Type 0
AsksNothing word = (p : Page) → Asks word p → ⊥

-- the page's text
abbrev pub page_text : Page → List ℕ
page_text page.Help = HELP.now
page_text page.Version = VERSION.now

-- Status 0: the whole text was written. Status 5: a write failed, and a beginning of the text was written.
abbrev pub Shows : List ℕ → Option (List ℕ) → Option (List ℕ) → ℕ → ℕ → ℕ → Type 0
Shows text before after faults later status = ((status ≡ 0) × HasWritten before after text) ⊎ ((status ≡ 5) × HasRisen faults later × HasWrittenPrefix before after text)
