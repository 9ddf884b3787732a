-- What a writer of CSV into memory holds between two lines.
use Rattle.std.specs.Prelude.{◌≡◌, ℕ, List, ◌++◌, false}
use Rattle.std.specs.Global.{Vec}
use Rattle.csv.specs.Writing.{default_writer, with_style, writer_setup, fields_written, has_written, writer_under, writer_pending}
use Rattle.csv.specs.declared.writer.WriterBuilder.{WriterBuilder}
use Rattle.csv.specs.declared.writer.Writer.{Writer}
use Rattle.csv.specs.declared.writer.QuoteStyle.TheVariants as style

-- commas, line feeds, no quotes
abbrev pub plain_writer : WriterBuilder
plain_writer = with_style default_writer style.Never

-- these whole lines, in the memory underneath and in the buffer
pub record Holds (w : Writer (Vec ℕ)) (lines : List ℕ) : Type 0 where
  pub setup : writer_setup w ≡ plain_writer
  pub fields : fields_written w ≡ 0
  pub clean : has_written w ≡ false
  pub text : (writer_under w).items ++ writer_pending w ≡ lines
