-- The answers whose lines a text has.
use Rattle.std.specs.Prelude.{List}
use Rattle.std.specs.List.{flat_map}
use Rattle.lease_server.specs.declared.answers.Answer.{Answer}
use Rattle.lease_server.specs.declared.texts.Text.{Text}
use Rattle.lease_server.specs.Answers.{all_of}

-- The answers whose lines the text has, in order.
abbrev pub said_by : Text → List Answer
said_by text = all_of text.said.entries

-- The answers of these texts, in order.
abbrev pub said_by_all : List Text → List Answer
said_by_all texts = flat_map said_by texts
