-- What is refused describes no session.
use Rattle.std.specs.Prelude.{ℕ, List}
use Rattle.str0m_sdp.specs.declared.session.error.SdpError.{SdpError}
use Rattle.str0m_sdp.specs.declared.session.error.SdpError.TheVariants.{ParseError, Inconsistent, Memory}
use Rattle.str0m_signal.specs.session.Reader.{DescribesSession, Reading}
use Rattle.str0m_signal.specs.session.ReaderAnswers.{ReaderRefuses}

-- where no value and no rest are a reading of the text, it describes none
pub refused_reading_described : (error : SdpError) (text : List ℕ) → ReaderRefuses error (Reading text)
    → ReaderRefuses error (DescribesSession text)
refused_reading_described (ParseError message) text refused = λ sdp found. refused (sdp, found.0) found.1
refused_reading_described (Inconsistent message) text refused = refused
refused_reading_described Memory text refused = refused
