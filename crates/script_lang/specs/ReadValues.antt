-- The values of words, as plain values.
use Rattle.std.specs.Prelude.{option_map}
use Rattle.table_model.specs.Requests.{reference_of}
use Rattle.script_lang.specs.declared.values.Values.{Values}
use Rattle.script_lang.specs.Rows as rows

abbrev pub values_of : Values → rows.Values
values_of v = record {
  x = reference_of v.x;
  name = v.name.now;
  bind = option_map (λ name. name.now) v.bind;
  group = option_map (λ name. name.now) v.group;
  pos = v.pos;
  count = v.count;
  bytes = v.bytes;
  given = v.given.now;
  frames = v.frames;
  mru = v.mru;
}
