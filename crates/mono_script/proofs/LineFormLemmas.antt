-- Forms of lines whose texts are equal.
use Rattle.std.proofs.Common.{◌≡◌, ℕ, List}
use Rattle.mono_text.specs.ReasonTexts.{forms_in}

pub same_forms : (lines parts ends pairs reports more_lines more_parts more_ends more_pairs more_reports : List ℕ) → lines ≡ more_lines → parts ≡ more_parts → ends ≡ more_ends → pairs ≡ more_pairs → reports ≡ more_reports
    → forms_in lines parts ends pairs reports ≡ forms_in more_lines more_parts more_ends more_pairs more_reports
same_forms lines parts ends pairs reports more_lines more_parts more_ends more_pairs more_reports l p e q r = cc
