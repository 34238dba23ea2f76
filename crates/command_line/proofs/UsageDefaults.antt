-- An option that isn't given is what the text for usage says that it is by default.
use Rattle.std.proofs.Common.{ℕ, ◌≡◌, ◌∙◌, ◌<◌, ◌^◌, sym, ap, Option, None, arith, unwrap_or}
use Rattle.std.specs.Prelude.{codes}
use Rattle.std.specs.Fmt.{decimal}
use Rattle.std.specs.Str.Parse.{digits_value}
use Rattle.std.proofs.lemmas.Fmt.{decimal_is_IsNumeral}
use Rattle.command_words.specs.Items.{number_given}
use Rattle.command_words.specs.declared.commands.CommandWord.TheVariants as word
use Rattle.command_words.specs.declared.wish.Wish.TheVariants.{Format, Run, Check, Gen, Clients, Dump, Load, Pack}
use Rattle.command_line.specs.UsageText.{default}
use Rattle.command_line.specs.UsageLaws.{IsDefault, TellsDefaults}

-- the option's value is the default, as it was without it
same : (field number : ℕ) (given : Option ℕ) → number < 2 ^ 64 → field ≡ unwrap_or given number → given ≡ None → field ≡ digits_value 10 (decimal number)
same field number given small is none = is ∙ ap (λ (o : Option ℕ). unwrap_or o number) none ∙ sym (decimal_is_IsNumeral number small).1

page_size : IsDefault word.Format (default (codes "page-size") 4096)
page_size items (Format g) is none gives = record {
  page_size_is = same g.page_size 4096 (number_given (codes "page-size") items) (omega arith) gives.page_size_is none;
  pages_are = gives.pages_are;
  segs_are = gives.segs_are;
  seg_len_is = gives.seg_len_is;
  fan_is = gives.fan_is;
}
page_size items (Run most) is none gives = absurd (cc)
page_size items Check is none gives = absurd (cc)
page_size items (Gen seed count) is none gives = absurd (cc)
page_size items (Clients most) is none gives = absurd (cc)
page_size items Dump is none gives = absurd (cc)
page_size items Load is none gives = absurd (cc)
page_size items Pack is none gives = absurd (cc)

pages : IsDefault word.Format (default (codes "pages") 4096)
pages items (Format g) is none gives = record {
  page_size_is = gives.page_size_is;
  pages_are = same g.pages 4096 (number_given (codes "pages") items) (omega arith) gives.pages_are none;
  segs_are = gives.segs_are;
  seg_len_is = gives.seg_len_is;
  fan_is = gives.fan_is;
}
pages items (Run most) is none gives = absurd (cc)
pages items Check is none gives = absurd (cc)
pages items (Gen seed count) is none gives = absurd (cc)
pages items (Clients most) is none gives = absurd (cc)
pages items Dump is none gives = absurd (cc)
pages items Load is none gives = absurd (cc)
pages items Pack is none gives = absurd (cc)

segs : IsDefault word.Format (default (codes "segs") 16384)
segs items (Format g) is none gives = record {
  page_size_is = gives.page_size_is;
  pages_are = gives.pages_are;
  segs_are = same g.segs 16384 (number_given (codes "segs") items) (omega arith) gives.segs_are none;
  seg_len_is = gives.seg_len_is;
  fan_is = gives.fan_is;
}
segs items (Run most) is none gives = absurd (cc)
segs items Check is none gives = absurd (cc)
segs items (Gen seed count) is none gives = absurd (cc)
segs items (Clients most) is none gives = absurd (cc)
segs items Dump is none gives = absurd (cc)
segs items Load is none gives = absurd (cc)
segs items Pack is none gives = absurd (cc)

seg_len : IsDefault word.Format (default (codes "seg-len") 1)
seg_len items (Format g) is none gives = record {
  page_size_is = gives.page_size_is;
  pages_are = gives.pages_are;
  segs_are = gives.segs_are;
  seg_len_is = same g.seg_len 1 (number_given (codes "seg-len") items) (omega arith) gives.seg_len_is none;
  fan_is = gives.fan_is;
}
seg_len items (Run most) is none gives = absurd (cc)
seg_len items Check is none gives = absurd (cc)
seg_len items (Gen seed count) is none gives = absurd (cc)
seg_len items (Clients most) is none gives = absurd (cc)
seg_len items Dump is none gives = absurd (cc)
seg_len items Load is none gives = absurd (cc)
seg_len items Pack is none gives = absurd (cc)

max_bytes : IsDefault word.Run (default (codes "max-bytes") 1099511627776)
max_bytes items (Run most) is none gives = same most 1099511627776 (number_given (codes "max-bytes") items) (omega arith) gives none
max_bytes items (Format g) is none gives = absurd (cc)
max_bytes items Check is none gives = absurd (cc)
max_bytes items (Gen seed count) is none gives = absurd (cc)
max_bytes items (Clients most) is none gives = absurd (cc)
max_bytes items Dump is none gives = absurd (cc)
max_bytes items Load is none gives = absurd (cc)
max_bytes items Pack is none gives = absurd (cc)

max_bytes_of_clients : IsDefault word.Clients (default (codes "max-bytes") 1099511627776)
max_bytes_of_clients items (Clients most) is none gives = same most 1099511627776 (number_given (codes "max-bytes") items) (omega arith) gives none
max_bytes_of_clients items (Format g) is none gives = absurd (cc)
max_bytes_of_clients items (Run most) is none gives = absurd (cc)
max_bytes_of_clients items Check is none gives = absurd (cc)
max_bytes_of_clients items (Gen seed count) is none gives = absurd (cc)
max_bytes_of_clients items Dump is none gives = absurd (cc)
max_bytes_of_clients items Load is none gives = absurd (cc)
max_bytes_of_clients items Pack is none gives = absurd (cc)

pub tells_defaults : TellsDefaults
tells_defaults word.Format = (page_size, (pages, (segs, (seg_len, tt))))
tells_defaults word.Run = (max_bytes, tt)
tells_defaults word.Check = tt
tells_defaults word.Gen = tt
tells_defaults word.Clients = (max_bytes_of_clients, tt)
tells_defaults word.Dump = tt
tells_defaults word.Load = tt
tells_defaults word.Pack = tt
