-- A number says one status.
use Rattle.std.proofs.Common.{◌≡◌, ℕ, Option, Some, None, refl, sym, ap, ◌∙◌, arith}
use Rattle.std.specs.Prelude.{◌==◌, if◌then◌else◌}
use Rattle.mono_script.specs.declared.ends.Status.{Status}
use Rattle.mono_script.specs.declared.ends.Status.TheVariants as status
use Rattle.mono_script.specs.Endings.{status_code}

abbrev status_at : ℕ → Option Status
status_at n =
    if n == 0 then Some status.Done
    else if n == 2 then Some status.Usage
    else if n == 3 then Some status.BadLine
    else if n == 4 then Some status.ReadFault
    else if n == 5 then Some status.WriteFault
    else if n == 6 then Some status.OutOfMemory
    else if n == 7 then Some status.TooLong
    else if n == 8 then Some status.Turns
    else if n == 10 then Some status.Capacity
    else if n == 11 then Some status.NotARun
    else None

read_back : (s : Status) → status_at (status_code s) ≡ Some s
read_back status.Done = refl
read_back status.Usage = refl
read_back status.BadLine = refl
read_back status.ReadFault = refl
read_back status.WriteFault = refl
read_back status.OutOfMemory = refl
read_back status.TooLong = refl
read_back status.Turns = refl
read_back status.Capacity = refl
read_back status.NotARun = refl

pub status_once : (s t : Status) → status_code s ≡ status_code t → s ≡ t
status_once s t e =
    let same : ◌≡◌ {A = Option Status} (Some s) (Some t) = sym (read_back s) ∙ ap status_at e ∙ read_back t in
    grind (arith, same)
